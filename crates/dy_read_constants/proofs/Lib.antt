pub mod ConstantCaps
pub mod ConstantLists
pub mod ConstantShapes
pub mod NextNesting
