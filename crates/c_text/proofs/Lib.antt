-- Lemmas, a file a line.
pub mod Names
pub mod Rows
pub mod Joined
pub mod TypeRows
pub mod UsedRows
