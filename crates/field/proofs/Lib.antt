pub mod Places
pub mod Optional
