pub mod EightNumbers
pub mod NoTile
