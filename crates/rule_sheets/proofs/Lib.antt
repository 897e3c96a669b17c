pub mod Walks
pub mod Payload
pub mod Fills
pub mod Meaning
