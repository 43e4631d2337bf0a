pub mod Counted
pub mod Sound
pub mod OneAnswer
pub mod FewBound
pub mod Taken
pub mod StandsNow
