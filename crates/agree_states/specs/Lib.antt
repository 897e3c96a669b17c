pub mod Charted
pub mod Sites
