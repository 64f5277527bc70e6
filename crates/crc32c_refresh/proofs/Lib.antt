pub mod Operators
pub mod Turns
pub mod Refreshes
pub mod Examples
