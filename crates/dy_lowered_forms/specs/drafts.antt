pub mod Kinds
pub mod Lowered
pub mod Plain
