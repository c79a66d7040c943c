pub mod Asked
mod Consulting
mod Generating
mod LongFiles
mod VerificationLemmas
