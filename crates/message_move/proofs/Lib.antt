pub mod Spots
pub mod Placing
pub mod Moves
