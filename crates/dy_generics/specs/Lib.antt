pub mod Congruence
pub mod Duplicates
pub mod Implicit
pub mod Words
