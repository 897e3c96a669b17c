pub mod Laws
pub mod Scans
pub mod Numbers
pub mod Written
pub mod Exact
pub mod Quick
