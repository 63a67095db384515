pub mod ReadLemmas
pub mod Declared
pub mod Somewhere
