pub mod Drafts
pub mod Tokens
pub mod Words
