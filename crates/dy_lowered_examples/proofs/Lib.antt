pub mod Computing
pub mod LoopCode
pub mod ClosureCode
