-- What networks are, and their measures, a file a line.
pub mod Network
pub mod NetworkCode
pub mod NetworkView
pub mod Depth
pub mod Weight
pub mod Height
pub mod Position
pub mod Place
pub mod Measured
pub mod FormView
pub mod LawStep
pub mod FormParts
