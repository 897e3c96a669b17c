pub mod Walks
pub mod Payload
pub mod Homes
pub mod Spans
pub mod Examples
