pub mod Means
pub mod Names
pub mod Passes
pub mod Redefined
pub mod Seen
