pub mod Mapped
pub mod OneAnswer
