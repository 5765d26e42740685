pub mod Words
pub mod Lexical
pub mod Names
pub mod Lexing
pub mod Cutting
