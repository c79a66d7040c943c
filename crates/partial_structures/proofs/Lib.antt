pub mod Ordering
pub mod Sames
pub mod Listed
pub mod Labelled
pub mod Statuses
pub mod Views
pub mod Distinct
pub mod Tallies
pub mod Extensions
pub mod Walks
pub mod Consistent
pub mod Contained
pub mod KnownHold
pub mod ElementLemmas
mod Rest
