pub mod CoreIndexFacts
pub mod KeeperFacts
pub mod LiveFacts
pub mod LiveGrowth
pub mod SolverFacts
