pub mod Choice
pub mod Scratch
pub mod Values
