-- What the primitive forms keep, and how that starts and steps, a file a line.
pub mod Cell
pub mod Queue
pub mod Entries
pub mod Earlier
pub mod Delays
pub mod Parts
pub mod CellView
pub mod Start
pub mod CellLaws
