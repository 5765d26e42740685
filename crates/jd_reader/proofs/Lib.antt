pub mod Rounds
pub mod Routes
pub mod Stretches
pub mod Verdicts
pub mod Total
