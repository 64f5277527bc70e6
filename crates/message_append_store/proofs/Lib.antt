pub mod Size
pub mod Grown
