pub mod Certainty
pub mod WellApplied
pub mod KnownArithmetic
pub mod Evaluation
pub mod Sides
pub mod Laws
pub mod Examples
