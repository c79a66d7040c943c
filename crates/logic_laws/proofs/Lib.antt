pub mod Derived
pub mod DomainsOf
pub mod NoArithmetic
pub mod Sublists
pub mod TypedExamples
