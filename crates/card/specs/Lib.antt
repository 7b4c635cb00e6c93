pub mod Layout
pub mod Reading
pub mod CardNumber
pub mod Good
pub mod Says
pub mod Right
