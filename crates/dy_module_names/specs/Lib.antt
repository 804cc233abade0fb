pub mod Definitions
pub mod Given
pub mod Means
pub mod Passes
pub mod Tokens
