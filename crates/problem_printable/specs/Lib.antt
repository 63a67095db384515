pub mod Numbering
pub mod Known
pub mod Printable
pub mod Laws
pub mod Progress
pub mod Parts
