pub mod Backslash
