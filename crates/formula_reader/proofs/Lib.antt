pub mod InTerms
pub mod InFactors
pub mod InOperands
pub mod InChains
pub mod OneReading
pub mod Unread
