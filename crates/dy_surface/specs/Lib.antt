pub mod Forms
pub mod TypeConstants
