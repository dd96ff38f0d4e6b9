pub mod Reading
pub mod Gap
pub mod Form
