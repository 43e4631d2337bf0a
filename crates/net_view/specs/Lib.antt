-- What is listed of a network, and its texts, a file a line.
pub mod Listed
pub mod Outline
pub mod Walked
pub mod Possible
pub mod Spots
pub mod Texts
pub mod Applied
pub mod Trace
pub mod TraceText
pub mod Cut
