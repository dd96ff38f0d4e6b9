pub mod Report
pub mod Answer
