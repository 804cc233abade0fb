pub mod Forms
pub mod Joining
pub mod Numbers
pub mod Plain
pub mod Tokens
