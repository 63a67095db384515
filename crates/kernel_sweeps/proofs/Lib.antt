pub mod Folds
pub mod FilledRows
