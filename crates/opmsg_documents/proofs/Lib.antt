pub mod Fill
pub mod Turns
