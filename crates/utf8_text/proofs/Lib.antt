pub mod Passing
pub mod Blocks
