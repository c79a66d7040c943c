pub mod Expansions
pub mod Exclusions
pub mod Enumerations
