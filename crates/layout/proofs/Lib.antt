pub mod Stores
mod Blocks
pub mod Middle
mod Cross
pub mod RightLists
pub mod Slots
pub mod Undamaged
pub mod Whole
pub mod SlotTests
pub mod Refusing
pub mod Written
pub mod Renewed
pub mod Standing
pub mod Blank
pub mod SlotCells
pub mod BoxList
pub mod Steps
pub mod Rows
