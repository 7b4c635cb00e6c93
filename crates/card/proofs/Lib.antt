pub mod Sums
pub mod Tests
pub mod Bounds
pub mod Good
pub mod Numbers
pub mod Says
