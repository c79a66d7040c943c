pub mod TheoryReads
pub mod FileResults
