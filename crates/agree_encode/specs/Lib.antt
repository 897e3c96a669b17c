pub mod Encode
pub mod Settings
pub mod Tabled
