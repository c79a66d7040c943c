pub mod NormalFacts
pub mod Views
