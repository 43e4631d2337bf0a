-- Building the C of a program, a file a line.
pub mod Symbols
pub mod Machine
pub mod Tables
pub mod Scopes
pub mod Places
pub mod Leaves
pub mod LeafLines
pub mod Types
pub mod Frames
pub mod Making
pub mod Frozen
pub mod Testing
pub mod Growing
pub mod Building
pub mod Functions
pub mod Timings
