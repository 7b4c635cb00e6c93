pub mod Table
pub mod Errors
pub mod Numbers
