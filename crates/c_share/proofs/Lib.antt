-- A file a line.
pub mod Alike
pub mod Linking
pub mod Sharing
