pub mod Bodies
pub mod Closing
pub mod Items
pub mod Libraries
pub mod Looping
pub mod Measuring
pub mod Pieces
