-- Lemmas.
pub mod Joined
pub mod NamedLemmas
pub mod FoldedLemmas
