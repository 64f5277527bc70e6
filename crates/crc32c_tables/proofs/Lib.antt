pub mod Xor
pub mod Laws
pub mod Tabulate
pub mod Tables
