pub mod Differ
pub mod PairLines
pub mod Meaning
pub mod Only
