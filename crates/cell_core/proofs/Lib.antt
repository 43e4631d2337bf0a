pub mod Queues
pub mod DelayCells
pub mod KeptCells
pub mod CellStarts
pub mod Copies
pub mod Wraps
