pub mod Joins
pub mod Kept
pub mod Mail
pub mod Measure
pub mod Telling
