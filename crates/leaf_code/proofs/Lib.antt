-- That the code of an expression computes its value, a file a line.
pub mod Computed
pub mod Values
pub mod Fitting
pub mod Types
pub mod Recent
