-- Equal functions once.
pub mod Sharing
