-- C as trees, and their text, a file a line.
pub mod NameText
pub mod TypeText
pub mod PlaceType
pub mod TermText
pub mod Used
pub mod CommandText
pub mod FileText
pub mod Meant
pub mod TypeRows
