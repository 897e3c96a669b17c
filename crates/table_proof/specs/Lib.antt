pub mod Marks
pub mod Read
