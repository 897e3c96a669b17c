pub mod Fair
pub mod Main
