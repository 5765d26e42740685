pub mod Mail
pub mod Tables
pub mod Waits
pub mod View
pub mod Steps
