pub mod Fetching
pub mod Layouts
pub mod Opcodes
pub mod Programs
pub mod Validity
