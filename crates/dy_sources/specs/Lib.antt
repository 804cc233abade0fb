pub mod Layout
pub mod Points
pub mod Refusals
pub mod Verdicts
pub mod Libraries
pub mod Laws
pub mod Judged
