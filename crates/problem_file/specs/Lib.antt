pub mod Statements
pub mod Order
pub mod Grammar
pub mod Drafts
pub mod Laws
pub mod Progress
