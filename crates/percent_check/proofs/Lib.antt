pub mod Judging
pub mod Runs
pub mod Examples
