pub mod ListTrees
pub mod MachineLoops
pub mod Machines
pub mod PassingSteps
