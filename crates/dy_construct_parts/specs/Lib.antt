pub mod Table
pub mod Words
pub mod Directives
pub mod Parts
