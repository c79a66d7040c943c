pub mod Heads
pub mod Completing
pub mod Models
pub mod Fewness
pub mod DefinitionSteps
pub mod ProblemLaws
pub mod FewTheories
pub mod TheoryRanges
