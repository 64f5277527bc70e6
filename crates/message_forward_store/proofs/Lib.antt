pub mod Forwards
pub mod Reseals
