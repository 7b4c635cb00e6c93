pub mod Differing
pub mod Line
