pub mod Doubled
pub mod Passes
