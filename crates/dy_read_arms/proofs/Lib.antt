pub mod ArmParts
pub mod ArmsBehind
pub mod Maxima
pub mod Results
