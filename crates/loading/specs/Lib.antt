pub mod Load
pub mod Says
