pub mod PhaseFacts
pub mod ScoreFacts
