pub mod Names
pub mod OneAnswer
pub mod Telling
