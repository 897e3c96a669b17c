pub mod None
pub mod Labels
pub mod Phrases
pub mod Statements
pub mod Lawful
