pub mod Bytes
pub mod Checksum
pub mod Fields
pub mod Forwarding
pub mod Head
pub mod Ports
pub mod Prefetched
pub mod Reasons
