pub mod Form
pub mod Lists
pub mod Regions
pub mod Levels
pub mod Ascent
pub mod NearSpaces
