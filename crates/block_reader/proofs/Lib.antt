pub mod Formats
pub mod Plain
pub mod BlockReadings
pub mod InVocabulary
pub mod InStructure
pub mod BlockFormats
pub mod RowFormats
pub mod StructureFormats
