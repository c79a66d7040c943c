pub mod ElementLemmas
pub mod LiteralLemmas
pub mod AnswerFacts
