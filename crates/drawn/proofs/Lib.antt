pub mod Only
pub mod Accepted
mod Steps
