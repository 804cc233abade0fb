pub mod Calls
pub mod Fronts
pub mod Lambdas
pub mod Statements
mod Steps
