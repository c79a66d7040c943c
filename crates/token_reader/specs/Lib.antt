pub mod Sorts
pub mod Machine
pub mod Modes
pub mod Signs
pub mod Parts
pub mod Binders
pub mod Variables
