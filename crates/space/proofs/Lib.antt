pub mod Ranges
pub mod Exactly
pub mod Marks
pub mod Examples
