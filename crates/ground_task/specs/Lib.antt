pub mod Tasks
pub mod Choices
