pub mod Adding
pub mod Elements
pub mod HasTypeCases
pub mod Numbers
mod FrontNumber
mod NumberParse
mod ShortNumbers
mod ReadSteps
pub mod WordLemmas
pub mod Behind
mod ValueRead
mod ValueFound
mod ReadingIs
mod FaultFound
mod FaultRead
mod FaultIs
mod Leftmost
mod ReadValue
