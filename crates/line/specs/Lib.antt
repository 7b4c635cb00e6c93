pub mod Differ
pub mod Line
