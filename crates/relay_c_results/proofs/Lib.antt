pub mod Rows
pub mod Room
