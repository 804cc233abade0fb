pub mod FragmentSteps
pub mod Listed
pub mod MethodParts
pub mod Parameters
pub mod SignatureFronts
