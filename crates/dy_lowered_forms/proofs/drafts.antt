pub mod Distinct
pub mod Quiet
pub mod Plain
pub mod Rows
