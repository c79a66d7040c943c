pub mod Found
pub mod Models
pub mod Laws
