pub mod Limit
pub mod Tokens
