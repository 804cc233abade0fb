pub mod Greatest
pub mod Measures
pub mod Selecting
