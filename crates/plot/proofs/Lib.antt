pub mod Drawing
pub mod Order
