pub mod Least
pub mod Theorems
