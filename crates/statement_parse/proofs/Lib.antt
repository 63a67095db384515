pub mod Lists
pub mod Found
pub mod Ends
pub mod Again
pub mod Once
pub mod Judged
pub mod Forms
