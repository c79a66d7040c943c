pub mod FileMeanings
pub mod Groundable
pub mod Laws
pub mod Readings
