pub mod Channels
pub mod Executing
