pub mod Lists
pub mod Changed
pub mod Alike
pub mod Steps
pub mod LongestRows
pub mod KernelsOn
pub mod FromTheEnd
pub mod Given
