pub mod Output
pub mod Input
pub mod Rows
