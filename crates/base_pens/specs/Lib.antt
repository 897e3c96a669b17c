pub mod Pen
pub mod Pack
