pub mod ClauseListFields
pub mod Freshness
pub mod Laws
pub mod Literals
pub mod Packing
pub mod Refutation
pub mod Truth
