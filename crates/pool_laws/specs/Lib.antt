pub mod Caches
pub mod Hands
pub mod Requests
pub mod Beside
pub mod Calls
pub mod Faults
