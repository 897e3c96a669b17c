pub mod Spelt
pub mod Texts
pub mod Lines
pub mod Targets
pub mod Statements
pub mod Main
