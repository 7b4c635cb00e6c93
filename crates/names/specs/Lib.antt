pub mod Names
pub mod Numbers
pub mod Fields
pub mod Steps
