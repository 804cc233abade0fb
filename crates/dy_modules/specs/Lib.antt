pub mod Builds
pub mod Cells
pub mod Clash
pub mod Clauses
pub mod Order
pub mod Sees
