pub mod Texts
pub mod Legal
pub mod Rows
pub mod Trails
pub mod Examples
pub mod ExamplesTexts
