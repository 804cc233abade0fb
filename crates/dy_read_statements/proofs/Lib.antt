pub mod Arms
pub mod Blocks
pub mod Branches
pub mod LoopHeads
pub mod Loops
pub mod StatementNodes
pub mod Statements
pub mod TestedParts
