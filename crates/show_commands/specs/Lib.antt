pub mod Statuses
pub mod Lines
