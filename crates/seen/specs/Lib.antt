pub mod RingSeen
pub mod Pass
