pub mod Following
pub mod Passes
