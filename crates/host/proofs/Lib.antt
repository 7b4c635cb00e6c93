pub mod Call
pub mod Only
