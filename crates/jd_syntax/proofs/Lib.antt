pub mod Refusals
pub mod Places
pub mod Readings
pub mod Texts
pub mod Total
