pub mod Expressions
pub mod Statements
pub mod Units
pub mod Follows
pub mod Main
