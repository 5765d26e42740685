pub mod Fabric
pub mod Rows
pub mod Workers
pub mod Outside
pub mod World
