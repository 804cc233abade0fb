pub mod Fragments
pub mod Spelling
pub mod Statements
