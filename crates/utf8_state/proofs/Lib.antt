pub mod Bytewise
pub mod Examples
