pub mod ItemFacts
pub mod DeletionFacts
