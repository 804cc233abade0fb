pub mod FormFronts
pub mod Fronts
pub mod Groups
pub mod NameRows
pub mod Nesting
pub mod PieceRows
pub mod FirstCuts
pub mod Trims
