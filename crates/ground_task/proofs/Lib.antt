pub mod ChoiceFacts
pub mod TaskFacts
