pub mod Routes
pub mod Rounds
pub mod Reading
pub mod Answers
