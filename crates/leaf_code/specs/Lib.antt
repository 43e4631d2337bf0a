-- The code of expressions, a file a line.
pub mod Operation
pub mod Running
pub mod Keys
pub mod CodeOf
pub mod CodeView
pub mod Fitting
