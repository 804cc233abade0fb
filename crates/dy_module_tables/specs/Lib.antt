pub mod Graphs
pub mod Lacking
pub mod Looking
pub mod Meant
pub mod Seeing
