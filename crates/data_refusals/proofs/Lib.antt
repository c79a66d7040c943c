pub mod Capped
pub mod Noting
pub mod Steps
pub mod TupleSets
pub mod WordRows
