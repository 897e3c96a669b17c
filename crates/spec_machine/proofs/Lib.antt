pub mod Messages
pub mod ExamplesFits
