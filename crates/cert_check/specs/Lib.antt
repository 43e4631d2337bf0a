-- Certificates: what a law answers at a tree, what steps derive, and what a check answers.
pub mod TreeAnswer
pub mod Derives
pub mod CheckAnswer
pub mod Laws
pub mod StepAnswers
