pub mod NextDomain
pub mod Uses
mod Accepted
