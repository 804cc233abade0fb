pub mod Nodes
pub mod Sizes
