pub mod Content
pub mod Counting
pub mod Facts
pub mod Graph
pub mod Linked
pub mod Parts
