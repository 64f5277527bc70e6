pub mod Held
pub mod Section
pub mod Appending
pub mod Answers
pub mod Cases
