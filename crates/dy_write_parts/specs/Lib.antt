pub mod Breaks
pub mod Joined
pub mod Leaves
pub mod Parts
pub mod Separated
