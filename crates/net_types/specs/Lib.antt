-- What the type checker of networks is to do, a file a line.
pub mod Walk
pub mod Check
pub mod WalkParts
pub mod Sites
pub mod FaultPlaces
pub mod TypingLaws
pub mod KeptTypes
pub mod Answered
