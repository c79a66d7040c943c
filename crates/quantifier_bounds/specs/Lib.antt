pub mod Steps
pub mod Places
pub mod Fits
pub mod Walks
pub mod Rules
pub mod Open
pub mod Laws
