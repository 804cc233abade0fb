pub mod Rows
pub mod Unnamed
pub mod Links
pub mod Members
