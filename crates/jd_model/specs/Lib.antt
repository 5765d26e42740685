pub mod Outcome
pub mod Table
pub mod Asking
pub mod Noticed
pub mod Machine
pub mod Node
pub mod World
pub mod Refines
