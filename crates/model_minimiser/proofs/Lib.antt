pub mod BoundFacts
pub mod TurnFacts
pub mod Order
pub mod DescentFacts
