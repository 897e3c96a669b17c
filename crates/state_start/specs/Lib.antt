pub mod Values
pub mod Starting
