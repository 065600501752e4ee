pub mod Adding
pub mod Counting
pub mod Kept
pub mod Texts
mod Rows
