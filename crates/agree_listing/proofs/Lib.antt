pub mod Told
pub mod Sites
pub mod Lists
pub mod Shown
pub mod Main
