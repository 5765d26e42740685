pub mod Events
pub mod Moving
pub mod Views
pub mod Whole
pub mod Written
