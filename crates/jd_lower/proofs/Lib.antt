pub mod Trees
pub mod Binding
pub mod Collecting
pub mod Lowered
pub mod Printing
pub mod Spelling
pub mod Numbering
