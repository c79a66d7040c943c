mod BoundedBases
mod CanBeGrounded
mod Consistent
pub mod Facts
mod Placed
pub mod Stages
pub mod Unique
