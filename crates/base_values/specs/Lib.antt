pub mod Bits
pub mod Faults
pub mod Operators
pub mod Types
pub mod Examples
