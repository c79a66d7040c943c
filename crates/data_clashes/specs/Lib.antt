pub mod Tables
pub mod Signs
pub mod Opposing
pub mod RunViews
pub mod SinglesViews
