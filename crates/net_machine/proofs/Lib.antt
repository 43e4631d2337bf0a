-- That machines output what networks mean, a file a line.
pub mod Plain
pub mod Cells
pub mod Switches
pub mod Restarts
pub mod Members
pub mod Collections
pub mod Machines
pub mod Typed
pub mod Computed
