pub mod Causes
pub mod Files
pub mod Host
pub mod Memory
pub mod Sinks
