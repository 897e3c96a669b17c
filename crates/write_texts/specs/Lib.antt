pub mod Turning
pub mod Places
pub mod Normal
pub mod Examples
