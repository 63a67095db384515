pub mod Jobs
pub mod Gathered
pub mod Putting
pub mod Sites
pub mod Seen
pub mod Written
