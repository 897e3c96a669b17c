pub mod Said
pub mod Lent
pub mod Walks
pub mod Demand1
pub mod InWords
pub mod Demand2
pub mod Demand3
pub mod Top
