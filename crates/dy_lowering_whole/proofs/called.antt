pub mod Pieces
pub mod Turns
pub mod Terms
pub mod Drafts
