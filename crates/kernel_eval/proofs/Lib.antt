pub mod Saturating
pub mod Rows
pub mod WholeRows
