pub mod Outside
pub mod Lines
pub mod ReadWrite
pub mod Memory
pub mod Files
pub mod Pending
pub mod Buffer
pub mod Finishes
