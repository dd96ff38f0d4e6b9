pub mod Arms
pub mod Among
pub mod Rows
pub mod Examples
