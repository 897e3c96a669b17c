pub mod Spans
pub mod Pieces
pub mod Examples
