pub mod Gap
pub mod Eight
pub mod Form
pub mod Bounds
pub mod Examples
