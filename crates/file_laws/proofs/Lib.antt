pub mod AcceptedBlocks
pub mod FileLaws
pub mod Given
mod Named
mod OneText
mod Spoken
pub mod SpokenAccepted
mod Trees
mod WordMeanings
