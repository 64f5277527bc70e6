pub mod Next
pub mod Listing
pub mod Run
pub mod Inner
