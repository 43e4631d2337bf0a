-- What a table of stored closures is to contracts, a file a line.
pub mod Computes
pub mod Rows
