pub mod Text
pub mod Hows
pub mod Files
