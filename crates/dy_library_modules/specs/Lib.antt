pub mod Words
pub mod Texts
pub mod Users
pub mod Modules
