pub mod Libraries
pub mod Names
pub mod Seen
