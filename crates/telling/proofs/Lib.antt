pub mod Bound
pub mod Widest
pub mod Free
pub mod Rows
pub mod Back
pub mod Told
pub mod Equal
pub mod Shown
