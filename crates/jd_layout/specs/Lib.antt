pub mod Blocks
pub mod Ids
pub mod Partition
pub mod Places
pub mod Refused
