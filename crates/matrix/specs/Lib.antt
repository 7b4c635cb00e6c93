pub mod Grid
pub mod Holding
pub mod Kept
pub mod Matrix
