pub mod Putting
pub mod Decimals
pub mod NameSteps
pub mod NameWords
pub mod NameFields
