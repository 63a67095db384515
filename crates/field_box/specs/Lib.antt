pub mod Fields
pub mod WalkedRows
