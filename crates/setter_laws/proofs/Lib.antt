pub mod Numbers
pub mod Seen
pub mod Order
pub mod Examples
pub mod Placed
