pub mod AskFacts
pub mod MarkFacts
pub mod SuitFacts
pub mod TermFacts
