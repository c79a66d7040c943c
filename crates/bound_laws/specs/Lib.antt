pub mod Lone
pub mod Heads
pub mod Closures
pub mod Laws
