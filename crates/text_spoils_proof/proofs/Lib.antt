pub mod Fronts
pub mod Exact
pub mod Within
