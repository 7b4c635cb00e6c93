pub mod Loading
pub mod Loads
pub mod Orders
pub mod Says
pub mod Only
pub mod Call
