pub mod Classes
pub mod Common
pub mod Laws
pub mod Members
pub mod Types
