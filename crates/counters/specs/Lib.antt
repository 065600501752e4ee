pub mod Tally
pub mod Counted
pub mod Report
pub mod Kept
