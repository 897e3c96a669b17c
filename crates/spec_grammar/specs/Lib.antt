pub mod Marks
pub mod Tree
pub mod Grammar
pub mod Print
pub mod Viable
pub mod Depth
pub mod Refusals
pub mod Examples
