pub mod Sheet
pub mod After
