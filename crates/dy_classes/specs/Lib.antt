pub mod Counters
pub mod Faults
pub mod Legal
pub mod Lists
pub mod Merge
pub mod Orders
pub mod Rows
pub mod Search
