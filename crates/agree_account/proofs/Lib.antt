pub mod Listed
pub mod Few
pub mod Steps
pub mod Processes
pub mod Instead
