mod Deepest
mod DefinitionParts
mod Ends
mod FormParts
mod SlotParts
