pub mod Examples
pub mod Names
pub mod Growing
pub mod Viewing
pub mod Picking
