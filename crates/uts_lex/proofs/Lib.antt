pub mod Appending
pub mod Coverings
pub mod Fronts
pub mod Longest
pub mod Numbering
pub mod Readings
pub mod Runs
pub mod Spellings
