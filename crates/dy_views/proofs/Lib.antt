pub mod Finding
pub mod Naming
pub mod Owners
pub mod Standing
