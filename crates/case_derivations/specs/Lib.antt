pub mod OpenCases
pub mod Adding
pub mod Looking
pub mod Closing
pub mod Once
pub mod Turning
