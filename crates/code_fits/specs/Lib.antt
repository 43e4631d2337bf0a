-- What the functions of code work on, and that it fits, a file a line.
pub mod Layouts
pub mod Rules
pub mod Standing
pub mod FitLaw
pub mod CodeOfNet
pub mod Tables
pub mod Parts
pub mod Room
pub mod Sizes
pub mod Saturated
pub mod Programs
pub mod Refusing
