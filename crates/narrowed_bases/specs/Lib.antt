pub mod Narrowings
pub mod Laws
