pub mod Setting
pub mod Refusal
