pub mod Wrap
pub mod Laws
mod Tests
pub mod Machine
mod Wrapping
mod Dividing
mod Shifting
mod Arms
mod Casts
