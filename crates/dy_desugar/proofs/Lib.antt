pub mod Clauses
pub mod Joins
pub mod Links
pub mod Parameters
pub mod Places
pub mod Rows
