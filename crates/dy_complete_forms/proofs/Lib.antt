pub mod Behind
pub mod Beginnings
pub mod Verdicts
