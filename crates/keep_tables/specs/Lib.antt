pub mod Held
pub mod Facts
pub mod Well
