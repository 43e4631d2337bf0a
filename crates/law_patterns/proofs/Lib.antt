-- Lemmas, a file a line.
pub mod Steps
pub mod Fits
pub mod Sides
pub mod Rules
pub mod NetSteps
pub mod NetFits
pub mod NetSides
pub mod NetRules
pub mod OneRightSide
pub mod Tables
