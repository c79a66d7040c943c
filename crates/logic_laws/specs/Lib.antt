pub mod Derivations
pub mod DomainExamples
pub mod Examples
pub mod QueryLaws
pub mod TypingExamples
