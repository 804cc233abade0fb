pub mod Coded
pub mod Counted
pub mod Made
pub mod Rows
pub mod Turning
pub mod Ways
