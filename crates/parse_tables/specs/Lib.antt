pub mod Numbering
pub mod Tables
