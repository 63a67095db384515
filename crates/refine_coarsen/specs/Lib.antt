pub mod Levels
pub mod FineFolds
