pub mod Table
pub mod Blocks
