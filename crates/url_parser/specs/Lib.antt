pub mod Uri
pub mod Step
