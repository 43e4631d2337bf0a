-- Proofs, a file a line.
pub mod Values
pub mod Same
pub mod Within
pub mod Typed
pub mod Operations
pub mod Steps
pub mod Emitted
pub mod LeafC
