pub mod TotalFacts
pub mod ShareFacts
pub mod ListFacts
pub mod ReasonFacts
pub mod BreakFacts
pub mod ImplyFacts
