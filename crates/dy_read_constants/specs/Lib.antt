pub mod ConstantCaps
pub mod ConstantFronts
pub mod ConstantLists
pub mod ConstantShapes
