pub mod Lists
pub mod Moves
pub mod Turning
pub mod Order
pub mod Seen
