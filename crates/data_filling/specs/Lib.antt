pub mod Filling
pub mod Together
