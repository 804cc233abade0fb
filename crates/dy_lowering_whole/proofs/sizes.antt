pub mod Closing
pub mod Libraries
pub mod Looping
pub mod Marked
pub mod Measuring
pub mod Weighing
