pub mod Results
pub mod Tells
