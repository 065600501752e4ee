pub mod Forwarding
pub mod Faults
pub mod Changes
pub mod Seen
pub mod Routing
pub mod Ports
pub mod Addressed
pub mod Frames
