pub mod Faults
pub mod Turns
pub mod Pieces
pub mod Examples
