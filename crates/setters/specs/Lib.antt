pub mod Setter
