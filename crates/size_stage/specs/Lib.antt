pub mod Ranges
pub mod Notes
pub mod Measures
pub mod Counted
