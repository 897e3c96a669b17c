pub mod Rows
pub mod Stack
pub mod Tokens
