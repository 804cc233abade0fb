pub mod Scoped
pub mod Shapes
pub mod Simple
pub mod Sound
pub mod Valid
pub mod Writing
