pub mod BodyFacts
pub mod RuleSteps
pub mod Typed
pub mod Ranges
pub mod SymbolSteps
pub mod HeadValues
pub mod MarkFacts
pub mod Grown
