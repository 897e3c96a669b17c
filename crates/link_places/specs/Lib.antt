pub mod Places
pub mod Examples
