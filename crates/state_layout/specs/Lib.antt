pub mod Layout
pub mod Walks
