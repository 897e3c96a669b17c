pub mod Runs
pub mod Entries
