pub mod Wide
pub mod Rows
