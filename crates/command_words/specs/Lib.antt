pub mod CommandLine
pub mod LineView
pub mod Complaints
