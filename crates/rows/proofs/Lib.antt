pub mod Cells
pub mod First
pub mod Fields
