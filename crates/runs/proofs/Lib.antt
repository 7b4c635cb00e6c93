pub mod Runs
pub mod Cells
mod WrittenCard
mod RoundTrip
mod LoadedCard
pub mod Cards
pub mod Calls
pub mod Readings
pub mod Transfers
pub mod Neighbours
