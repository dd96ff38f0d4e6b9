pub mod Each
pub mod Fixed
pub mod Laws
pub mod Backward
pub mod Examples
