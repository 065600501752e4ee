pub mod Forms
pub mod Plans
pub mod Replies
pub mod Standing
