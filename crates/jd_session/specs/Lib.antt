pub mod Written
pub mod Headline
pub mod Recorded
pub mod Stops
pub mod Ends
