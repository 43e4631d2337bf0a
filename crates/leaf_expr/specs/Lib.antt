-- How types and expressions are read and printed, a file a line.
pub mod WordReading
pub mod Token
pub mod Sexpr
pub mod Language
pub mod TreeReader
pub mod ReadLaws
pub mod Grammar
pub mod Printing
pub mod Text
pub mod Limits
pub mod TextRows
pub mod Lexeme
pub mod Front
pub mod Form
pub mod ReadText
