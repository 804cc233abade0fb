pub mod Folding
pub mod Kinds
pub mod Orders
pub mod Tables
pub mod formers
