pub mod Choosing
pub mod Entering
pub mod Performing
pub mod Plain
pub mod Steadying
