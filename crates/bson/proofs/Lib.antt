pub mod Frame
pub mod Levels
pub mod Steady
pub mod Element
pub mod Bounds
