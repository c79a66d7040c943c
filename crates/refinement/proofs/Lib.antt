pub mod Parts
pub mod Follows
pub mod Guided
