pub mod ClauseCode
pub mod Pieces
pub mod Ways
