pub mod Minima
pub mod Bounds
