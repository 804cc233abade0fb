pub mod Escapes
pub mod Formatting
pub mod Fronts
pub mod Printing
pub mod Unhandled
