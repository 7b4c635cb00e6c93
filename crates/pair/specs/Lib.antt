pub mod Answer
pub mod Meaning
