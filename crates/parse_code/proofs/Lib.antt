pub mod Build
pub mod Built
