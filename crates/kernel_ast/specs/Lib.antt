pub mod Arithmetic
pub mod Folds
pub mod Value
pub mod Size
pub mod Form
