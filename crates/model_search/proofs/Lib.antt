pub mod RetirementFacts
