pub mod Drafts
pub mod Rows
pub mod Types
