pub mod Skips
pub mod Leaves
pub mod Matches
pub mod Begun
pub mod Trees
pub mod Main
