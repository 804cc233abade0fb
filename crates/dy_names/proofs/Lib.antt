pub mod Kept
pub mod Naming
pub mod Leaving
