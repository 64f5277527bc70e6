pub mod Marks
pub mod Texts
pub mod Distinct
pub mod Elements
