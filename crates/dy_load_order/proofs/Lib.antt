pub mod Earlier
pub mod Examples
pub mod Keeping
pub mod Lawful
pub mod Members
pub mod Placing
pub mod Visiting
pub mod Walking
