pub mod DefinitionLaws
pub mod TheoryLaws
