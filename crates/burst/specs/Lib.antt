pub mod Items
pub mod Cells
pub mod Numbers
pub mod Slot
