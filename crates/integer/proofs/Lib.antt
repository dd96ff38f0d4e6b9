pub mod Laws
pub mod Negative
pub mod Examples
