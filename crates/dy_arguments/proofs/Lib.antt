pub mod Knowing
pub mod Returning
pub mod Untyped
