pub mod Naming
pub mod Outside
pub mod Places
pub mod Tables
