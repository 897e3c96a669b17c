pub mod Variables
pub mod Expressions
pub mod Examples
