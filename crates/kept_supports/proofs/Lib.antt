pub mod KeptFacts
pub mod SupportFacts
