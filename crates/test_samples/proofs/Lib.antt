pub mod Opened
pub mod Asked
pub mod Sheet
