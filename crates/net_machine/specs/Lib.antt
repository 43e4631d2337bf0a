-- Machines, a file a line.
pub mod Store
pub mod Stepper
pub mod Machine
pub mod Examples
