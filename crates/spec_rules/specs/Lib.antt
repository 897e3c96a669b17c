pub mod Senses
pub mod Heights
pub mod Roles
pub mod Statements
pub mod Units
pub mod Ceilings
pub mod Examples
pub mod Ceiled
