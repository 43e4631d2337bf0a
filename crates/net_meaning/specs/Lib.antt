-- What networks mean, when they are typed, and the laws of both, a file a line.
pub mod SignalFunction
pub mod Meaning
pub mod Environment
pub mod TypedNetwork
pub mod Typing
pub mod NetworkLimits
pub mod Sameness
pub mod AlikeEnvironments
pub mod Laws
pub mod SwitchLaws
pub mod Examples
pub mod GoingOn
pub mod Congruence
