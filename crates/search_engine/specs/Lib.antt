pub mod Potential
pub mod Knowledge
pub mod Searching
pub mod LitSets
pub mod Passing
pub mod Cores
pub mod Resting
pub use Rattle.kept_problem.specs.Joining
