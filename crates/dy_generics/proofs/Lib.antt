pub mod Composed
pub mod Doubles
pub mod Firsts
pub mod Parts
pub mod Shown
pub mod Turns
