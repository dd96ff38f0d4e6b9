pub mod Parts
pub mod Drawing
pub mod Escape
pub mod Whole
pub mod Plain
