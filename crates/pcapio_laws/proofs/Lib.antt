pub mod Fields
pub mod Unique
pub mod Exists
pub mod Cases
pub mod Written
pub mod Rows
