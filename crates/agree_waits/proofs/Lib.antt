pub mod Walks
pub mod Leaves
pub mod Main
