pub mod Quiet
pub mod Places
pub mod Labels
pub mod Names
pub mod Heads
pub mod Jumps
pub mod Units
pub mod Whole
