pub mod Held
pub mod Tables
pub mod Occurs
pub mod State
pub mod Steps
pub mod Taken
pub mod Stopped
