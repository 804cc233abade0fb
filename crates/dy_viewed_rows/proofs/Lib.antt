pub mod Terms
pub mod Drafts
pub mod Rows
pub mod Owners
pub mod Read
pub mod Used
pub mod Apart
pub mod Loaded
