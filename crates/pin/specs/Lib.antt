pub mod Pins
pub mod Segments
pub mod Covering
pub mod West
pub mod BothEnds
pub mod Reaches
