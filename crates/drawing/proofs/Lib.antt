pub mod Stays
pub mod Marks
pub mod Drawing
