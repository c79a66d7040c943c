pub mod Askable
pub mod Laws
