-- That code outputs what networks mean, a file a line.
pub mod BodyLaws
pub mod Links
pub mod Emitted
pub mod Codes
pub mod Streams
pub mod Olds
pub mod CallLinks
pub mod CallBounds
