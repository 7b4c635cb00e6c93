pub mod Write
pub mod Says
pub mod Steps
