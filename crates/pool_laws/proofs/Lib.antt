pub mod Counts
pub mod Singles
pub mod Requests
pub mod Turned
pub mod Kept
pub mod Wholes
pub mod Others
mod Rows
