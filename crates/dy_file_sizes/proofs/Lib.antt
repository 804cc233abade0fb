pub mod Forms
pub mod Joining
pub mod Libraries
pub mod Parts
pub mod Rows
pub mod Terms
pub mod Tokens
pub mod Types
