pub mod Changes
pub mod Held
pub mod Reading
pub mod Moments
pub mod Runnable
