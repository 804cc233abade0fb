pub mod Tokens
pub mod Headers
pub mod Cut
pub mod Sources
