pub mod Agrees
pub mod Alike
