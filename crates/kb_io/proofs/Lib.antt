pub mod KnownBytes
pub mod LineLemmas
pub mod FirstLines
pub mod Pieces
pub mod Named
pub mod Cutting
pub mod Reading
pub mod Answering
