pub mod OpenWeights
pub mod Weighings
pub mod Atoms
pub mod Fits
pub mod Laws
pub mod Examples
