pub mod Runs
pub mod Sources
pub mod Items
