pub mod Lists
pub mod Deriving
pub mod Bearing
pub mod Completeness
pub mod Standing
pub mod Assigning
pub mod Distinct
