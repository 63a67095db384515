pub mod Streams
pub mod Reads
pub mod Writes
pub mod Memory
pub mod Standard
