pub mod V4
pub mod Form
