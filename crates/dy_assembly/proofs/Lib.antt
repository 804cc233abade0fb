pub mod Assembling
pub mod Firsts
pub mod Gathering
pub mod Offering
pub mod Zipping
