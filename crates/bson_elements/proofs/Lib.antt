pub mod Heads
pub mod Examples
