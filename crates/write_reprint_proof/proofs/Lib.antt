pub mod Walk
pub mod Expressions
pub mod Lists
pub mod Statements
pub mod Declarations
pub mod Models
pub mod Main
