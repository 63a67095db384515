pub mod Lines
pub mod Noting
