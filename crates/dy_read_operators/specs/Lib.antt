pub mod ListTrees
pub mod Machines
pub mod Passings
pub mod PassingSteps
