pub mod Never
pub mod Eaten
pub mod Same
pub mod Judge
pub mod Ranges
pub mod Main
