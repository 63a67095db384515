pub mod Counted
pub mod Owning
pub mod Walking
pub mod Writing
pub mod Linkable
pub mod Linking
