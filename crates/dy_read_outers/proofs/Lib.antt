pub mod Fills
pub mod GrownNodes
pub mod Stacks
