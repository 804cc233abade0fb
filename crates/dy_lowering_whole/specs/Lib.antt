pub mod Lowered
pub mod Unexited
pub mod Whole
pub mod valid
pub mod sizes
pub mod called
