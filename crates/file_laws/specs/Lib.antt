pub mod Accepted
pub mod FileLaws
pub mod Spoken
