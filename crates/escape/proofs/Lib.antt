pub mod Escape
pub mod Plain
