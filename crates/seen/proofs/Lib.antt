pub mod Pass
pub mod Shown
