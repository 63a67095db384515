pub mod Windows
pub mod Storing
