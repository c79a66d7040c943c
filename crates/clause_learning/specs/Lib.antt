pub mod CoreIndexes
pub mod LiveBounds
pub mod Keeping
pub mod SolverState
pub mod SolverFields
pub mod GoingOn
