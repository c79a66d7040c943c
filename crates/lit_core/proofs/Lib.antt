pub mod ClauseListFacts
pub mod Closure
pub mod FreshFromQuiet
pub mod Freshness
pub mod LiteralFacts
pub mod Soundness
