pub mod Equivalence
pub mod Sameness
