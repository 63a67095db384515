pub mod Filled
pub mod Put
