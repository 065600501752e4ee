mod Ends
mod Kept
mod Shown
mod Rows
mod Unsound
