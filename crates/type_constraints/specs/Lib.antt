pub mod PartViews
pub mod Gathering
pub mod ChosenTypes
