pub mod Twins
pub mod Table
