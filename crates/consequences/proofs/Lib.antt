pub mod TestFacts
pub mod Numbers
pub mod IndexFacts
pub mod ForcingFacts
