pub mod ProgramWorlds
pub mod Steady
pub mod Tables
