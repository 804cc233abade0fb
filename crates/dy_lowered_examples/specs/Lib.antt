pub mod Building
pub mod Closures
pub mod Loop
