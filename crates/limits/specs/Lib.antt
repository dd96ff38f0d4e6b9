pub mod Limits
pub mod Entered
