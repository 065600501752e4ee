pub mod Fault
pub mod Places
pub mod Waiting
