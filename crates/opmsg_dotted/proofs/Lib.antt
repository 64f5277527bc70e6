pub mod FirstName
pub mod Follow
pub mod Paths
