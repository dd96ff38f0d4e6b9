pub mod Pieces
pub mod Steps
pub mod Stands
pub mod Reading
pub mod Characters
pub mod Examples
pub mod Run
