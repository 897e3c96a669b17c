pub mod Machines
pub mod Statements
pub mod Transfer
pub mod Ways
