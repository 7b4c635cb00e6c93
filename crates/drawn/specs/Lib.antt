pub mod Drawn
pub mod Steps
