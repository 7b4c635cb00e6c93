pub mod Lines
pub mod Grid
pub mod Kept
pub mod Cells
pub mod Holding
pub mod Matrix
pub mod Meaning
pub mod Only
