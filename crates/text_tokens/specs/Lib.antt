pub mod Reading
pub mod Answers
pub mod Scans
pub mod Lines
pub mod Examples
