pub mod Sets
pub mod Meets
pub mod Walking
pub mod Meeting
