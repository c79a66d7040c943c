pub mod ApplicationFacts
pub mod PlaceFacts
pub mod TableFacts
pub mod UnknownFacts
pub mod LiteralFacts
