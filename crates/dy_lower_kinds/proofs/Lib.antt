pub mod Both
pub mod Selecting
pub mod Lowered
