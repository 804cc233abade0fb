pub mod Numbering
pub mod Programs
