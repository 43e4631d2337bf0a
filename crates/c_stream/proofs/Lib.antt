-- Proofs, a file a line.
pub mod Writing
pub mod Standing
pub mod Reading
pub mod Lists
pub mod Filter
