pub mod Answered
pub mod Lines
pub mod Outcomes
pub mod Statuses
pub mod Told
pub mod Parts
