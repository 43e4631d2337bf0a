pub mod Shapes
pub mod KeyEquality
pub mod TableLemmas
