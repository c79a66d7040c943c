pub mod Supports
pub mod Laws
