pub mod Typed
pub mod Known
pub mod Grounded
pub mod Right
pub mod Small
pub mod One
pub mod Light
pub mod Weights
