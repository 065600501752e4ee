pub mod Fault
pub mod Capture
pub mod Text
pub mod Rows
