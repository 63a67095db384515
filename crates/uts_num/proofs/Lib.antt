pub mod Numerals
pub mod Wrapping
