pub mod Constants
pub mod Evaluations
pub mod Members
pub mod Readings
pub mod RowTables
pub mod Standings
