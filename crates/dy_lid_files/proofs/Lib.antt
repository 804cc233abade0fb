pub mod Turns
pub mod Counting
pub mod Keys
pub mod Trimming
pub mod Agreement
pub mod Examples
