pub mod Fills
pub mod Starts
pub mod Heights
pub mod Inside
pub mod Proper
