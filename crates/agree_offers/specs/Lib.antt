pub mod Depth
pub mod Told
