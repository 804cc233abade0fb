pub mod Exported
pub mod Lacks
pub mod Meanings
pub mod Past
pub mod Promises
pub mod Standing
pub mod Targets
