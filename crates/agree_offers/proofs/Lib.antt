pub mod Lists
pub mod Shallow
pub mod Walks
pub mod Counted
pub mod Places
pub mod Firsts
pub mod Texts
pub mod Main
