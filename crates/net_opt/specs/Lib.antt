-- What an optimised network is.
pub mod Optimising
pub mod Order
pub mod Nesting
pub mod Search
pub mod Walk
pub mod Laws
