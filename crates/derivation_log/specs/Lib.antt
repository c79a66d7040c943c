pub mod Steps
pub mod Claims
pub mod Texts
pub mod Lines
pub mod Checks
pub mod Laws
pub mod Scans
pub mod Readings
