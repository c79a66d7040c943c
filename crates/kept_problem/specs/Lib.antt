pub mod Joining
pub mod KeptFields
