pub mod Views
pub mod Rows
pub mod Bodies
pub mod Names
pub mod Generics
pub mod Programs
