pub mod Measuring
pub mod Levels
pub mod Trees
pub mod Lists
pub mod Widths
pub mod Naming
pub mod Peeling
