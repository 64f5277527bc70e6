pub mod Longest
pub mod Checks
pub mod Forms
pub mod Beginning
pub mod Numbers
pub mod Examples
