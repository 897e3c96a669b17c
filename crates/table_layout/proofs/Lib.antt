pub mod Building
pub mod Reading
pub mod Holds
pub mod Back
pub mod Fits
pub mod Trees
