pub mod Words
pub mod Tally
pub mod Examples
