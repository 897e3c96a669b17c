pub mod Agreed
pub mod Main
pub mod Statements
