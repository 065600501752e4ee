pub mod Extent
pub mod Fault
pub mod Fit
pub mod Plan
pub mod Sizes
pub mod Word
