pub mod NineCells
pub mod Surrounding
