pub mod Closed
pub mod Begun
