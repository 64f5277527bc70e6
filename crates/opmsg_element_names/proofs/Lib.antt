pub mod Texts
pub mod Names
pub mod Ordering
pub mod Starts
