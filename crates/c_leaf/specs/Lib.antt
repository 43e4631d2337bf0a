-- Values and expressions as C, a file a line.
pub mod Representing
pub mod LeafC
pub mod LeafCLaw
pub mod Within
