pub mod Lists
pub mod JoinedRows
pub mod Room
pub mod Sweeps
