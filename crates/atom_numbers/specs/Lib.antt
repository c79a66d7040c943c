pub mod Numbers
pub mod NumberFields
pub mod Tables
pub mod Unknown
pub mod Laws
