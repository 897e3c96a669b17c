pub mod Moves
pub mod Trails
pub mod Numbers
pub mod Lent
