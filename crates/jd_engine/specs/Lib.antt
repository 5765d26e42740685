pub mod Words
pub mod Endings
pub mod Loading
pub mod Headline
