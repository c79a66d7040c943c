pub mod Totals
pub mod Laws
pub mod Reasons
pub mod Implied
pub mod Thresholds
pub mod Once
pub mod Looking
pub mod Spared
