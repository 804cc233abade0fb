pub mod Gathered
pub mod Generics
pub mod Libraries
pub mod Seen
