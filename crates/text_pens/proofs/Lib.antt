pub mod Laws
pub mod Sheet
pub mod Marks
pub mod After
