mod Steps
mod Rows
mod Unsound
pub mod Founds
pub mod Places
mod FrameRows
