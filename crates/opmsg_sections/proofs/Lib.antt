pub mod Reached
pub mod Gather
