pub mod Paths
pub mod Inner
