pub mod Opened
pub mod Tokens
pub mod Lengths
pub mod Grammar
pub mod Names
pub mod Rules
pub mod Ceilings
