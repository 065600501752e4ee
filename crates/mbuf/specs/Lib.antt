pub mod Buffer
pub mod Chain
pub mod Links
pub mod Lends
pub mod ChainLends
pub mod Deck
pub mod Entries
pub mod Fault
