pub mod Labels
pub mod PlacedViews
pub mod Words
