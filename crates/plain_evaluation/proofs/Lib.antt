pub mod Counts
pub mod Digits
pub mod Envs
pub mod Folds
pub mod Loops
pub mod NoAssignments
pub mod Sums
