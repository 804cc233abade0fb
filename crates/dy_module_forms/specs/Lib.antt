pub mod Cuts
pub mod Clauses
pub mod Forms
