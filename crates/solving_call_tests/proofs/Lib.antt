pub mod FixedFacts
