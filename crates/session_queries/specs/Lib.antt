pub mod Solvers
pub mod Queries
