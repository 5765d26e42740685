pub mod Braces
pub mod Drops
pub mod First
pub mod Measured
pub mod Nested
pub mod Rooms
pub mod Shapes
