pub mod Numbers
pub mod Frame
pub mod Readings
pub mod Orders
pub mod Says
pub mod Layouts
pub mod Several
