pub mod Dropped
pub mod Found
pub mod Spotted
