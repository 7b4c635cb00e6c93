pub mod Directions
pub mod Differences
