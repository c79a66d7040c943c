pub mod Places
pub mod Labels
pub mod Nodes
pub mod Growth
pub mod Changes
pub mod WordLemmas
mod ValueLabels
mod Entered
