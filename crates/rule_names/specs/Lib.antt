pub mod Alone
pub mod Heads
pub mod Bodies
