mod Flushed
pub mod Joined
mod SentItems
pub mod Sole
