pub mod Marked
pub mod Examples
