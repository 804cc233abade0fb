pub mod Fed
pub mod Keys
