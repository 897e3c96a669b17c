pub mod Insides
pub mod Passes
pub mod Begins
pub mod Follows
pub mod Bodies
pub mod Main
