pub mod Axis
pub mod Bands
