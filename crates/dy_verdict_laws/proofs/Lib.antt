pub mod Accepted
pub mod Come
pub mod Forms
pub mod Generics
pub mod Libraries
pub mod Uniqueness
