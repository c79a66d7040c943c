pub mod Shares
pub mod NextFact
pub mod Kept
pub mod KeyLemmas
pub mod OpposingFacts
pub mod RunFacts
pub mod Opposable
