pub mod Analyses
pub mod Laws
pub mod Learning
pub mod Marked
pub mod Resolvents
pub mod Shortening
pub mod Tracing
