pub mod Results
pub mod Chains
