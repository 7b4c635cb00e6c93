mod Round
mod Pass
mod Parts
mod Near
mod Candidates
pub mod Only
