pub mod BodyParts
pub mod FragmentLoops
pub mod ListedParts
pub mod MethodParts
pub mod ParameterParts
pub mod PieceLoops
pub mod Rests
pub mod SignatureParts
