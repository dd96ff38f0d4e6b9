pub mod Append
pub mod Places
pub mod Seen
pub mod Veiled
pub mod Examples
pub mod Told
