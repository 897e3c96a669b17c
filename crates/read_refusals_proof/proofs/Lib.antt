pub mod Numbers
pub mod Main
