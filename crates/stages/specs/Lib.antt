pub mod Numbers
pub mod Passing
pub mod Judging
pub mod StageFaults
pub mod Access
pub mod Custody
pub mod Feeding
pub mod Threads
