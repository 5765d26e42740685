pub mod Interning
pub mod Numbers
pub mod Scan
pub mod Pieces
pub mod Cuts
pub mod Known
