-- What stands where in a network, and of what type, a file a line.
pub mod TypedNetworkCode
pub mod TypedNetworkView
pub mod Leaves
pub mod NeedView
pub mod ArrowView
pub mod Scopes
pub mod LeafWalk
pub mod Placed
pub mod Standing
pub mod Rewriting
pub mod ChildParts
pub mod StandingWalk
pub mod FoundType
pub mod BehindRoute
pub mod SamePlace
pub mod TypingLaws
