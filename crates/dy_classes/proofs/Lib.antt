pub mod Clashes
pub mod Classes
pub mod Counters
pub mod Decisions
pub mod Found
pub mod Getters
pub mod Laws
mod Listed
pub mod Lists
pub mod Moves
pub mod Pairs
pub mod Picks
pub mod Refusals
pub mod Runs
pub mod Steps
pub mod Tables
pub mod Turns
pub mod Whole
