pub mod Counting
pub mod Filling
pub mod Beside
pub mod Single
