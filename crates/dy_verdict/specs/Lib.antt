pub mod Pieces
pub mod Forms
pub mod Readings
pub mod Trees
pub mod Limits
pub mod Libraries
pub mod Verdicts
