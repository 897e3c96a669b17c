pub mod Marks
pub mod Drawn
pub mod Tokens
pub mod Accepted
pub mod Read
pub mod Wrote
pub mod Built
