pub mod Forced
pub mod Indexed
