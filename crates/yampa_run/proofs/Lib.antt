pub mod Written
pub mod Runs
mod Networks
mod Refusals
mod Headline
mod Front
mod NetworkRun
mod TextFaults
mod DerivationFiles
mod WholeRun
mod OptimisedFiles
mod AppliedFiles
mod Numbers
mod Places
mod CText
mod CompiledFiles
