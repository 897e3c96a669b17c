pub mod Codes
pub mod Items
pub mod Sets
