pub mod Coded
pub mod Pieces
pub mod Counts
pub mod Programs
