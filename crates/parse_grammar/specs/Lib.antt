pub mod Engine
pub mod Marks
pub mod Productions
pub mod Numbers
pub mod Guide
pub mod Judge
pub mod Examples
