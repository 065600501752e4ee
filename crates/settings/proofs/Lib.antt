pub mod EachOf
pub mod EachOk
mod OneRoute
mod Rows
