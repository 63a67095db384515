pub mod Stored
pub mod Shapes
pub mod Views
pub mod Children
