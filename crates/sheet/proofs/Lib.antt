pub mod Only
pub mod Call
