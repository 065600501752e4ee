pub mod Powers
pub mod Words
pub mod Lists
