pub mod Depth
pub mod Machine
pub mod Answer
pub mod Items
