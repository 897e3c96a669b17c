pub mod Passes
pub mod Phrases
pub mod Statements
pub mod Units
pub mod Scans
pub mod Spans
pub mod Nears
pub mod Aims
