pub mod Sum
pub mod Within
pub mod Room
pub mod Entries
pub mod Stands
pub mod Entered
