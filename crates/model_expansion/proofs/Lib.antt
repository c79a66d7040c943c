pub mod ExpansionFacts
pub mod ExclusionFacts
pub mod EnumerationFacts
