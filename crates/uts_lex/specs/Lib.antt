pub mod Lines
pub mod Lexemes
pub mod Tokens
pub mod Names
pub mod Words
pub mod Spelling
pub mod NameNumbers
