pub mod Groundable
pub mod Steps
pub mod Sides
pub mod Weighing
pub mod Laws
