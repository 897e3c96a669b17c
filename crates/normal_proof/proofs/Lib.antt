pub mod Trees
pub mod Texts
pub mod Owners
