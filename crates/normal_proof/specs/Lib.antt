pub mod Signing
pub mod Texts
