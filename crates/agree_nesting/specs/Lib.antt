pub mod Balanced
pub mod Full
