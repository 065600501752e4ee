pub mod Pasts
pub mod Lanes
pub mod Lines
pub mod Publishing
