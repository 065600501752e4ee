pub mod Words
pub mod Changes
pub mod Rule
pub mod Closing
pub mod Kinds
pub mod Refusals
