pub mod Environments
pub mod WholeRows
