pub mod Laws
pub mod LoadOrder
