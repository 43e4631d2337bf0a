-- A file a line.
pub mod Wrapping
pub mod Alike
pub mod Runs
pub mod Choices
