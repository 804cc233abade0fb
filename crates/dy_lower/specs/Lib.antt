pub mod Behaving
pub mod Placed
