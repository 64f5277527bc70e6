pub mod Cases
pub mod Examined
