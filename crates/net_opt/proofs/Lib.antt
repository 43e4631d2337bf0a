pub mod Beside
pub mod TooHigh
pub mod Tried
pub mod Insides
pub mod Walked
pub mod OneOptimised
