pub mod Coordinates
pub mod Cuts
pub mod Inside
pub mod Picked
pub mod Placed
pub mod Reducers
pub mod Spans
