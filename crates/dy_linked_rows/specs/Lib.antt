pub mod Terms
pub mod Rows
pub mod Code
pub mod Mentioned
pub mod Laws
pub mod Kept
pub mod Programs
