pub mod Kinds
pub mod Tables
pub mod Grammar
pub mod Form
pub mod Laws
pub mod Reading
