pub mod Statements
pub mod Following
