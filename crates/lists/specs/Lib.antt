pub mod Fault
pub mod Append
pub mod Lists
