pub mod Standing
pub mod Meaning
