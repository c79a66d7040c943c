pub mod Phases
pub mod Scores
