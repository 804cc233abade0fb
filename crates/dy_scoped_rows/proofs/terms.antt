pub mod Folds
pub mod Facts
pub mod Below
pub mod Scoping
