pub mod Givens
pub mod Outsides
pub mod Puts
pub mod Rings
pub mod Sorts
