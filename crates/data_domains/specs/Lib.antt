pub mod Listings
pub mod Lookups
pub mod Runs
pub mod Sets
pub mod Shares
pub mod Traits
pub mod TypeSets
