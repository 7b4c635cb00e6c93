pub mod Directions
pub mod DirectionSets
pub mod Moved
pub mod Differences
pub mod Only
