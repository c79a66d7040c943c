mod Sums
mod Bounds
mod Causes
mod Attained
mod Units
pub mod Full
mod ListFacts
mod Deciding
mod Singles
mod Looks
mod Moves
mod Followed
mod Spares
mod Acting
mod Joined
mod Variables
