pub mod Line
pub mod Examples
