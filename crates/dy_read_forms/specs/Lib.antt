pub mod ReadDefinitions
pub mod ReadForms
