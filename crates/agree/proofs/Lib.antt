pub mod Middle
pub mod Wider
pub mod Narrow
pub mod Pieces
pub mod Cells
pub mod Agree
pub mod Twice
