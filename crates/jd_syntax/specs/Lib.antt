pub mod Spelling
pub mod Refusal
pub mod Answers
pub mod Kinds
