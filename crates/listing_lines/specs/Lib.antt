pub mod Decimal
pub mod Words
pub mod Fields
pub mod Written
pub mod Lines
