pub mod Packing
pub mod Going
pub mod Answers
pub mod Refusals
