pub mod Fields
pub mod Numbers
pub mod Spelling
pub mod Splitting
