pub mod Value
pub mod Inner
