pub mod Keyed
pub mod Looped
pub mod Noting
