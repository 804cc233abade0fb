pub mod Closures
pub mod Lets
pub mod Loops
pub mod Operating
pub mod Selects
