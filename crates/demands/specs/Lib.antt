pub mod Table
pub mod Giving
pub mod Leaving
pub mod Blind
pub mod Telling
