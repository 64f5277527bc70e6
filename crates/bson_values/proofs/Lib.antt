pub mod Value
pub mod Parts
pub mod Rows
pub mod Examples
