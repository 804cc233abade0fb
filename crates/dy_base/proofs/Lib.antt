pub mod Letters
pub mod Lists
pub mod Orders
pub mod Places
pub mod Positions
pub mod Tables
