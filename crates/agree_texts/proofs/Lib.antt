pub mod Blank
pub mod From
pub mod Last
pub mod Firsts
pub mod Main
