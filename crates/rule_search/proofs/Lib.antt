pub mod Rest
pub mod Chain
