pub mod Plain
pub mod Measures
pub mod Code
pub mod Keys
pub mod Peeling
