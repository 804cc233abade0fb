pub mod Classes
pub mod Errors
pub mod Identity
pub mod Objects
pub mod Spending
pub mod Stores
pub mod Variables
pub mod Words
