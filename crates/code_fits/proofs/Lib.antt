-- That code fits, a file a line.
pub mod Cells
pub mod Shapes
pub mod Values
pub mod Functions
pub mod Links
pub mod RuleTests
pub mod Folds
pub mod Room
pub mod Programs
pub mod Saturation
pub mod KeptSizes
pub mod Refusals
