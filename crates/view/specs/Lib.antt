pub mod Given
pub mod Hidden
