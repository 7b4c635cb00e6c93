pub mod Report
pub mod Meaning
