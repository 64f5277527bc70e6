pub mod Texts
pub mod Rows
pub mod Sound
pub mod Complete
pub mod Grammar
