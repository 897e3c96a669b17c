pub mod Held
pub mod Names
pub mod Marks
