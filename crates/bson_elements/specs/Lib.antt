pub mod Element
pub mod Inner
