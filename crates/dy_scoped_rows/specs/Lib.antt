pub mod Scoped
pub mod terms
