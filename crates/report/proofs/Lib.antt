pub mod Most
pub mod Told
pub mod Exactly
pub mod Examples
