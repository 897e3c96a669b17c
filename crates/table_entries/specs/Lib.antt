pub mod Entry
pub mod Items
pub mod Sources
