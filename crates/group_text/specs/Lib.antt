pub mod Text
pub mod Form
