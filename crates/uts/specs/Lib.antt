pub mod Answer
pub mod Commands
pub mod Failures
pub mod Laws
pub mod Words
pub mod Listed
