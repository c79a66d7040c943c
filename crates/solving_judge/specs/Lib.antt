pub mod Answering
pub mod Marking
pub mod Rules
pub mod Sayings
pub mod Suiting
pub mod Telling
pub mod Totals
