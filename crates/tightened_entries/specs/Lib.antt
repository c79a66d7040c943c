pub mod LastBounds
pub mod Readings
pub mod SelectorSets
