pub mod Scans
pub mod Lines
