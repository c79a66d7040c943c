pub mod LastFacts
pub mod FoundFacts
