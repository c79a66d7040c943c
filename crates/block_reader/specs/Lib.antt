pub mod BlockParts
pub mod BlockReads
