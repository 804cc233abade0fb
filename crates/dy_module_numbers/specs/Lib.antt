pub mod Numbers
pub mod Options
pub mod Sorting
pub mod Modules
pub mod Rings
