pub mod Below
pub mod Common
pub mod Listed
pub mod Meeting
pub mod Ranges
pub mod TypeLaws
