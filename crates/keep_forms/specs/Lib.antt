pub mod Forms
pub mod Aims
