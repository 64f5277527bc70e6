pub mod Counting
pub mod Shown
