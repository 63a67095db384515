pub mod Listing
pub mod Predecessors
