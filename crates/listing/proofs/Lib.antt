pub mod Settled
pub mod Next
pub mod Taken
pub mod Rest
pub mod Fair
pub mod Pieces
pub mod Examples
