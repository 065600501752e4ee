pub mod Chosen
pub mod Formats
pub mod Printed
