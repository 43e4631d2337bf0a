pub mod InsideLaws
pub mod Places
pub mod SameDatum
pub mod Soundness
pub mod Exactness
mod Typed
pub mod Uniqueness
pub mod ShapeValue
pub mod Sizes
pub mod SameParts
pub mod PartNumbers
pub mod PartTypes
pub mod WithinParts
