pub mod Utf8
pub mod Text
pub mod Longest
pub mod Numbers
pub mod Inner
