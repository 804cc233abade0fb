pub mod Grown
pub mod Outers
pub mod Passed
pub mod ReadTrees
