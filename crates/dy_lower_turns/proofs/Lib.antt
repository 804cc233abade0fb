pub mod ByKind
pub mod Listing
pub mod Turned
