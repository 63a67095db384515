pub mod Tiling
pub mod Found
pub mod Touched
pub mod Halves
