pub mod RowTexts
pub mod Noted
pub mod Seen
pub mod Shown
pub mod FieldRows
pub mod Counted
pub mod KeptNames
pub mod WholeRun
