pub mod Counted
pub mod Examples
pub mod Numbering
pub mod Uses
