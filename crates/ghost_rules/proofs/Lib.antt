pub mod Fitting
pub mod Near
