pub mod Streams
pub mod Consultation
pub mod Statements
pub mod EndedLines
pub mod Answers
pub mod Answering
pub mod Turns
pub mod Accepted
