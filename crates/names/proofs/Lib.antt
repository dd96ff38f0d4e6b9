pub mod Prefix
pub mod Runs
