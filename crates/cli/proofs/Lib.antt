mod Choosing
mod Keeping
mod Printing
mod Rows
