pub mod Inner
pub mod Arguments
