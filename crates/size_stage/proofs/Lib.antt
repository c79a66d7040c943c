pub mod Capping
mod Fair
pub mod Steps
mod Widening
mod Walks
mod Noting
mod Reaching
mod Counting
