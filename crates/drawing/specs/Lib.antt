pub mod Marks
pub mod Stays
pub mod Drawing
