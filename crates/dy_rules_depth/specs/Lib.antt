pub mod Changes
pub mod ReaderChanges
pub mod Capping
pub mod FormItems
