pub mod Arms
pub mod BodyDepths
pub mod ReadArms
pub mod ReadBodies
pub mod ReadItems
