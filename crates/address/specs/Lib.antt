pub mod Address
pub mod Steps
pub mod Form
