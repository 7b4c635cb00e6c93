pub mod Lengths
mod Parts
mod WholeCard
pub mod Orders
pub mod Says
pub mod Only
pub mod Call
