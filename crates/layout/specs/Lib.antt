pub mod Sheet
pub mod Standing
pub mod Layout
pub mod Slots
pub mod Damage
pub mod Changes
pub mod Steps
pub mod BoxList
