pub mod Items
pub mod Appends
pub mod Fronts
mod Values
