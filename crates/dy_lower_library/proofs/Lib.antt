pub mod Bodied
pub mod Rows
pub mod Whole
