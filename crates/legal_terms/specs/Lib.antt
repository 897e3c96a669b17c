pub mod Says
pub mod Setting
pub mod Faulted
