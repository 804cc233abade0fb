pub mod Methods
pub mod Places
pub mod Precedence
pub mod Sorting
