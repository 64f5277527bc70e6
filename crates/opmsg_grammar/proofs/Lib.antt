pub mod Differ
pub mod Names
pub mod Sound
pub mod Complete
pub mod Trees
pub mod Form
pub mod Reading
