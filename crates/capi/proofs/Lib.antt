pub mod Handles
pub mod Hops
pub mod Leaving
mod Rows
pub mod Slots
pub mod Values
pub mod Asking
pub mod Emptying
pub mod Filling
pub mod Held
pub mod EndCalls
pub mod Limits
pub mod Reserving
mod EndRows
mod HoldRows
mod RingRows
pub mod Settled
pub mod Waiting
pub mod Attempts
pub mod PoolCalls
pub mod Deals
pub mod PoolOpenings
mod PoolRows
