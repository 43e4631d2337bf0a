-- Laws as pairs of patterns, a file a line.
pub mod Pattern
pub mod Matching
pub mod Building
pub mod Rule
pub mod NetPattern
pub mod NetMatching
pub mod NetBuilding
pub mod NetRule
pub mod PatternLaws
pub mod Table
