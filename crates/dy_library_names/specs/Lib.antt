pub mod Closing
pub mod Early
pub mod Laws
pub mod Named
pub mod Passes
pub mod Told
