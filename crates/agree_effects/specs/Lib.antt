pub mod Stages
pub mod Walked
pub mod Few
