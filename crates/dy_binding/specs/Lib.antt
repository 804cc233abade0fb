pub mod Faults
pub mod Reads
pub mod Bound
pub mod Names
pub mod Types
