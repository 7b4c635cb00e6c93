pub mod Bits
mod Places
mod Shift
mod Gather
mod Banded
mod Marks
pub mod Laid
pub mod Only
