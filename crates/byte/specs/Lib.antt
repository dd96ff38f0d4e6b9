pub mod Byte
pub mod Same
pub mod Digit
pub mod Put
pub mod Ascii
