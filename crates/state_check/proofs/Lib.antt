pub mod Laws
pub mod Uses
pub mod Meaning
pub mod Kept
pub mod Exact
