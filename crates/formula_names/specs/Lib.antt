pub mod Meanings
pub mod Levels
pub mod Tails
pub mod LaterLinks
pub mod Steps
pub mod PartStandings
