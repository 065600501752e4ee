pub mod Custody
pub mod Keeping
pub mod Settled
pub mod Marks
pub mod Rounds
pub mod Unfed
pub mod Linking
pub mod Ended
pub mod Alike
mod RingRows
mod Rows
