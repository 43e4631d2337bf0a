pub mod MappedMeasures
pub mod Measuring
pub mod Sizes
pub mod FormLaws
