pub mod Amounts
pub mod Totals
pub mod Extremes
pub mod Shares
pub mod Reasons
pub mod Breaking
pub mod Laws
pub mod Implying
