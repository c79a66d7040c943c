pub mod Models
pub mod Retirements
