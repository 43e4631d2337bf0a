-- The C of cells and forms, a file a line.
pub mod Ring
pub mod Keeping
pub mod Standing
pub mod Forms
pub mod Cells
pub mod Delay
pub mod Switches
pub mod Freezing
pub mod Members
pub mod Routing
pub mod Collection
pub mod Checked
