pub mod Parts
pub mod Pen
