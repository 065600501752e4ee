pub mod EachWord
pub mod Gifts
pub mod Judged
pub mod Planned
pub mod Lone
