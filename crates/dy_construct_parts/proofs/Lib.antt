pub mod Firsts
pub mod PartRows
