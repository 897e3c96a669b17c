pub mod Bytes
pub mod Quiet
pub mod Statements
pub mod Deeds
