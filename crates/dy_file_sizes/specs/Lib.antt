pub mod Drafts
pub mod Files
pub mod Rows
pub mod Sizes
pub mod Tokens
