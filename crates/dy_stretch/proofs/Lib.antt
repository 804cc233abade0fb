pub mod Fresh
pub mod Marking
pub mod Reaching
pub mod Walking
