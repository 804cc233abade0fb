pub mod Costs
pub mod Cuts
pub mod Printed
