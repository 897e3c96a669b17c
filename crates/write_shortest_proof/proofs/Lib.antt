pub mod Algebra
pub mod Lightened
pub mod Main
