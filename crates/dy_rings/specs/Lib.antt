pub mod Rings
pub mod Walks
