pub mod SaidClaims
pub mod ClaimLines
pub mod Verdicts
pub mod RightClaims
