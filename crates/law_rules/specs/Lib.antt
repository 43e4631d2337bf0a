-- The laws of networks, a file a line.
pub mod NetworkLaw
pub mod Forward
pub mod Laws
pub mod Table
pub mod Answer
