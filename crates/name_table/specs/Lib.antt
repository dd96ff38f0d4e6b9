pub mod Names
pub mod Find
