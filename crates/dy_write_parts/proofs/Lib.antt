pub mod BreakParts
pub mod Endings
pub mod Expressions
pub mod Lists
pub mod Separated
pub mod Steps
