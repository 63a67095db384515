pub mod Lines
pub mod Reads
pub mod Names
pub mod Computed
