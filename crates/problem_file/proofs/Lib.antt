pub mod Readback
pub mod Tails
pub mod Lines
pub mod Reached
pub mod Judged
pub mod Answered
pub mod InForm
