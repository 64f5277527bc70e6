pub mod Sizes
pub mod Span
