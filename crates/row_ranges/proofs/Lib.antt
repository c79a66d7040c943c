pub mod Passing
pub mod Keying
pub mod Leading
pub mod Walking
pub mod Searching
